-- What is promised
pub mod Actions
pub mod Laws
pub mod KernelActs
pub mod Extended
pub mod Synthetic
-- Private
pub mod Within
