-- From memory to plain values: what closures answer that take the source, and what code answers that adds typedef names
pub mod Sources
-- The grammar's readers by their parts
pub mod Steps
-- What code answers that reads one declarator of a type
pub mod Types
