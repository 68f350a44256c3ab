pub mod Looks
pub mod CommonTypes
