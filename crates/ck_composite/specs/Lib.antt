-- What is promised
pub mod Composite
-- Private
pub mod CompositeNodes
pub mod Made
