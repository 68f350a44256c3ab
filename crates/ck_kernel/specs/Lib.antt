-- What is promised
pub mod KernelTable
pub mod Laws
-- From memory to plain values
pub mod Shown
-- Private
pub mod Lengths
