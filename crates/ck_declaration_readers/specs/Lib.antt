-- What is promised
pub mod Laws
-- The grammar's readers by their parts, over readers of what is inside
pub mod Steps
-- What code answers: a row whose end is left to read
pub mod Rows
