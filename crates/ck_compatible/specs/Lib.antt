-- What is promised
pub mod Compatible
-- What it rests on: the pairs of numbers that have to agree
pub mod Agreement
pub mod Pairs
