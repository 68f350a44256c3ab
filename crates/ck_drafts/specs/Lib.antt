-- What is promised
pub mod Drafts
