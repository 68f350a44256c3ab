-- The theorems
-- typed_keeps_sense
mod SenseOfTyped
-- trees_declare, declarations_stay, stays_orderly, stays_fitting
mod TreesDeclare
mod Growth
-- opening_shows, closing_hides, means_open_entry
mod Scopes
-- known_is_in_range: constant expressions, then operators, then expressions
mod KnownValues
mod OperatorsFit
mod SensesFit
-- bodies_declare
mod BodiesDeclare
-- calls_ascend
mod CallsAscend
-- stays_compatible
mod TypesOverFiles
-- tells_the_first, tells_some
mod FirstRefused
-- Worked texts
mod Texts
mod Walks
mod Rows
mod Worked
mod WorkedOperators
mod WorkedNames
mod WorkedTrees
-- Worked projects, by the numbers of their refusals
pub mod ProjectTexts
mod WorkedScopes
mod WorkedLinks
mod WorkedConstants
mod WorkedTypes
mod WorkedFunctions
mod WorkedBodies
mod WorkedSettings
mod WorkedCorners
mod WorkedFirmware
mod WorkedCalls
mod WorkedInitialisers
mod WorkedStructs
mod WorkedParameterTags
mod WorkedTentative
mod WorkedKernelCalls
mod WorkedSlots
mod WorkedTables
