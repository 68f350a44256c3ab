-- What is added to rows of calls
pub mod Added
-- Which call of an expression has a path
pub mod ExpressionsAscend
pub mod Sites
-- Elements of the rows of tables, one after the other
pub mod Elements
-- Loops over rows
pub mod Loops
pub mod Suffixes
-- What a call calls, and its row
pub mod CalleeLemmas
pub mod Rows
-- All functions
pub mod AllFunctions
-- Items of blocks
pub mod Items
-- The first element of braces, and the first item of a block
pub mod FirstElements
