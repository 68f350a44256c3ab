pub mod Appending
pub mod Told
pub mod Reading
pub mod Untold
