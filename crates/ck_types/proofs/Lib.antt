-- The theorems
-- converts_into_range, converts_to_itself
pub mod Conversions
-- operators_stay_in_range
pub mod InRange
-- compatible_is_reflexive, compatible_is_symmetric
pub mod Compatible
-- constants_have_types
pub mod TypedConstants
-- Constants by their bytes
pub mod ConstantLemmas
pub mod DigitValues
-- Tables of types
pub mod Tables
pub mod Entries
pub mod OneNumber
pub mod Arrays
pub mod NodeLemmas
-- Products that 128 bits hold
pub mod Products
pub mod Quotients
-- Worked rows
mod Worked
