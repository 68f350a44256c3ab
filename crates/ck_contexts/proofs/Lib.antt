-- Worked examples, computed on the definitions
pub mod Worked
-- What synthetic functions do
pub mod GraphWays
pub mod EntryWays
pub mod StepWays
-- Soundness
pub mod NoFault
pub mod SoundTargets
pub mod FilledPoints
pub mod SoundExtension
pub mod PlacedPoints
-- What steps lead to and call
pub mod InnerSteps
-- One more element
pub mod StepLemmas
pub mod Grown
