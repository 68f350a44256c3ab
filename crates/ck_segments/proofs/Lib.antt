-- Segments in form whose steps fit are walks
pub mod Expanding
pub mod Finished
pub mod Fitting
-- Steps and moves
pub mod Moving
-- Where steps lead from
pub mod Places
-- Lists that grow at their end
pub mod Lists
-- Worked examples, computed on the definitions
pub mod WorkedRows
