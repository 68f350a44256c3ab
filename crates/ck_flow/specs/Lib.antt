-- What is promised
pub mod PointLimit
pub mod SoundParts
