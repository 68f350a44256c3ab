-- Pairs in order, and the numbers at their places
pub mod PairOrder
-- Composite types and nodes
pub mod CompositeLaws
pub mod CompositeSteps
-- Numbers that are made one after another
pub mod Numbers
