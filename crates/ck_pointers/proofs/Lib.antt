-- What rules say of sources as they are used
mod SourceLemmas
mod ResultLemmas
-- What the rows of a typed project say of names, members and suffixes
mod NameLemmas
mod MadeLemmas
mod RowLemmas
-- What is given
mod GivingLemmas
-- A project's slots by hand
mod WorkedSlots
