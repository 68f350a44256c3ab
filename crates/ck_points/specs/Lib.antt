-- What is promised
pub mod Laws
pub mod Graphs
pub mod Functions
-- What it rests on: statements, evaluations, their points and edges
pub mod Statements
pub mod Labels
pub mod Passages
pub mod Places
pub mod Initialising
pub mod Evaluations
