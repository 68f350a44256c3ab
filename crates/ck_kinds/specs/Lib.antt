-- What is promised
pub mod KindedDrafts
-- Private
pub mod CallOrder
pub mod Callers
