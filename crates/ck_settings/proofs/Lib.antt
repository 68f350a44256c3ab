-- The theorems: what is read is what the definitions say, it is valid, and it is read again from what is written of it
pub mod Joined
pub mod ValidSettings
pub mod VersionTwo
-- Bytes, tables and lists
pub mod Toml
pub mod Tables
pub mod UnknownKeys
pub mod Elements
pub mod Repeated
pub mod Loops
-- Worked documents
pub mod Worked
