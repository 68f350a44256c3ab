-- What is promised
pub mod Numberable
pub mod Counts
-- Private
pub mod PlaceOrder
pub mod Closed
pub mod Numbered
