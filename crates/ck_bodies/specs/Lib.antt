-- What is promised
pub mod FunctionPoints
-- Private
pub mod Walks
pub mod DrawnStatements
pub mod Noting
pub mod Jumps
pub mod DrawnFunctions
