-- The theorems: no text has two forms, and paths meet what a report requires
pub mod OneText
pub mod InForm
-- The places that maps give are those of the definition
pub mod PlaceLemmas
-- Lines one after the other
pub mod LineLemmas
pub mod SegmentLemmas
-- Names of a graph
pub mod GraphLemmas
-- Worked rows
pub mod Worked
