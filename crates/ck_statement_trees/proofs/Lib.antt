-- Laws for who reads these trees: what it means that a mark comes, and how what parts read makes what the whole reads
pub mod Marks
pub mod Wholes
