-- Loops
mod Loops
mod Readings
mod Names
mod Middles
mod WholeDeclarators
mod WholeParams
-- specifiers
mod SpecifierLoops
mod SpecifierSteps
-- further parameters
mod ParamLoops
-- enumerators
mod EnumeratorLoops
