-- Laws for the crates above: the views, production by production, and rows that loops push
pub mod Views
pub mod Equations
pub mod InitialiserEquations
pub mod StatementEquations
pub mod GrowingRows
-- First and last tokens
mod EndLemmas
mod RowEnds
mod StatementsAppended
-- From the data of recursive types to lists
pub mod Rows
-- Worked texts
mod WorkedCalls
