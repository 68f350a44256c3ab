-- What is promised
pub mod Relation
-- What it rests on: how much a relation can grow, for those who repeat unions
pub mod Room
