-- How deep a tree nests, as it is kept
pub mod Depths
