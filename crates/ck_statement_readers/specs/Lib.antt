-- The grammar's readers by their parts, over readers of what is inside
pub mod Steps
pub mod Views
-- What code answers: a part whose rest is left to read
pub mod Parts
