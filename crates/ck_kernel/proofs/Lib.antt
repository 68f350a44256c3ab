-- The theorems
mod LawLemmas
-- The rows, and what searches give
mod RowLemmas
mod Searching
-- The definitions at work
mod Worked
