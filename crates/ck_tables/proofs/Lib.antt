-- Names
pub mod NameLemmas
-- Tables
pub mod TableLemmas
pub mod ExprLemmas
pub mod SubobjectLemmas
pub mod InitLemmas
pub mod StmtLemmas
pub mod FactsLemmas
pub mod TargetLemmas
pub mod ProgramLemmas
pub mod FitLemmas
-- Worked
mod WorkedCalls
mod WorkedNumbers
mod WorkedPaths
