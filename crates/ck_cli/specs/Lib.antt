-- What is promised: read this first
pub mod Promise
pub mod Answer
pub mod Verdict
pub mod Statuses
-- What it rests on: the file form, the walk, the kernel's counters, the texts
pub mod FileForm
pub mod Stray
pub mod Calls
pub mod Walk
pub mod Kernel
pub mod Texts
pub mod Placed
-- Private: contracts inside the crate alone speak of these
pub mod MainFile
pub mod Lexemes
pub mod Reading
pub mod Readers
pub mod Sources
pub mod Walking
pub mod Walked
pub mod Written
