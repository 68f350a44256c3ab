-- What is in sight
pub mod IndexedLemmas
pub mod SeenLemmas
pub mod OrderedLemmas
-- What memory keeps
pub mod NumberLemmas
pub mod KeptLemmas
pub mod LinkLemmas
-- What it is in ck_prog
pub mod AgreementLemmas
