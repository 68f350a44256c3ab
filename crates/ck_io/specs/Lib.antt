-- What is promised: of every folder and sink, and of those in memory
pub mod Environment
pub mod FaultPlan
pub mod MemoryFolder
pub mod MemorySink
-- From memory to plain values
pub mod MemoryFiles
pub mod Real
