-- What is promised
pub mod Laws
pub mod Steps
pub mod Modelling
-- What it rests on: which rules follow from a project, and what has its rules
pub mod Following
pub mod Covering
pub mod SiteRules
pub mod CalleeRules
pub mod Meanings
