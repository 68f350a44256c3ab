-- What is promised: which rows are those of a typed project's calls
pub mod TypedRows
pub mod Naming
-- Private
pub mod Walks
