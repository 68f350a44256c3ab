-- What is promised: what names mean, which declarations are one, and what both are in ck_prog
pub mod Environments
pub mod Links
pub mod Agreement
-- From memory to plain values
pub mod Kept
pub mod LinksKept
pub mod Ordered
pub mod Seen
-- Private
pub mod Indexed
