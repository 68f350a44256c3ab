-- tallies_tell
pub mod GoTogether
-- Each part of a tally
mod Counts
mod Combinations
mod Tallied
mod Classes
mod Flags
-- Words that are none of the subset
mod UnknownWords
