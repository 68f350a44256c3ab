-- points of expressions, then of functions
mod EvaluationLengths
mod OperandPoints
mod ExpressionExtents
mod BodyLengths
-- weights, tables and rows
mod Lists
mod TableWeights
mod Rows
mod Fits
mod Outcomes
-- counts
mod CountLemmas
