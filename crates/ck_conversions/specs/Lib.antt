-- What is promised: what a type is made of and how a table grows; what answers about two types say; common types
pub mod Parts
pub mod Telling
pub mod Common
