-- cells_are_exact, slots_are_exact, threads_are_exact, timers_are_exact, targets_are_exact, listed_targets_are_exact
pub mod ExactLaws
-- From rules to the project, and back
mod Soundness
mod Completeness
-- The steps by which rules grow
pub mod Growing
pub mod Pushes
mod Keeping
-- Cells, kinds and callees; what a call passes; lists that agree place by place
mod Cells
mod Passing
mod Zips
-- A worked project
mod WorkedModel
mod WorkedProject
