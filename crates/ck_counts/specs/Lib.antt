-- Private
pub mod EvaluationPoints
pub mod Extents
pub mod BodyPoints
pub mod Rows
pub mod Weights
