-- What is promised
pub mod Commands
pub mod BenchText
-- Private
pub mod Matched
