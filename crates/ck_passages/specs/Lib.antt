-- What is promised
pub mod Walks
pub mod Points
-- What it rests on: one point before others, and the values of operands in the tables
pub mod Drawing
pub mod Operands
