-- What is promised
pub mod Laws
pub mod Reaching
pub mod Listed
-- What it rests on: what is given where, and where values come from
pub mod Givens
pub mod Origins
pub mod Holders
pub mod Assignments
pub mod Wholes
