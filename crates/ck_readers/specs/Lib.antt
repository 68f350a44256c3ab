-- What is promised: what is read at a place
pub mod Places
-- From memory to plain values
pub mod SourceView
pub mod NameSet
pub mod Forms
pub mod Rows
pub mod Looks
-- Private
pub mod Steps
