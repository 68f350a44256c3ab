-- What is promised: read this first
pub mod Tokens
pub mod Places
pub mod Laws
pub mod Runs
-- What it rests on
pub mod Cuts
pub mod Lexemes
pub mod Preprocessing
pub mod Keywords
pub mod FloatingConstants
pub mod Markers
pub mod Bytes
-- From memory to plain values
pub mod PlaceMaps
-- Private: contracts inside the crate alone speak of these
pub mod Scanning
pub mod Mapping
