-- What is promised: read this first
pub mod Documents
pub mod Valid
-- What it rests on
pub mod Keys
pub mod Classes
pub mod Values
pub mod Faults
-- Private: contracts inside the crate alone speak of these
pub mod Places
pub mod Reading
pub mod Upgrading
