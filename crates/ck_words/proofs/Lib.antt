-- The theorem: no words are two commands
pub mod OneCommand
-- Words that are a command: what clap makes of them, and the number that they name
pub mod Matching
pub mod Numbers
pub mod SameWords
-- The lines of the benchmark, one after the other
pub mod BenchLines
-- Worked rows
pub mod Worked
