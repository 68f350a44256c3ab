-- What is promised
pub mod Laws
pub mod Growing
pub mod TypedTrees
pub mod TypedExpressions
pub mod Acts
-- What it rests on: declarations, and what a use means
pub mod TypeClasses
pub mod Declarations
pub mod Sizes
pub mod Linking
pub mod Tags
pub mod BaseTypes
pub mod Derivations
-- Senses, by the sections of 6.5
pub mod Operators
pub mod Senses
pub mod ConstantExpressions
pub mod BinarySenses
pub mod AssignmentSenses
pub mod UnarySenses
pub mod PostfixSenses
pub mod Typing
pub mod Declaring
-- Bodies: initialisers, declarations, statements, files
pub mod CurrentObjects
pub mod TypedBodies
pub mod TypedInitialisers
pub mod TypedDeclarations
pub mod TypedStatements
pub mod TypedFiles
-- What is refused, and where
pub mod Sights
pub mod Projects
pub mod OverFiles
pub mod ExpressionRefusals
pub mod BodyRefusals
pub mod DeclarationRefusals
pub mod Refused
pub mod BodyLaws
-- What flow stands on: paths, calls, slots, names of the settings
pub mod Paths
pub mod Calls
pub mod PathOrder
pub mod Slots
pub mod SettingsNames
