-- What is promised
pub mod Promise
-- Private
pub mod Found
pub mod Justified
pub mod Search
pub mod Citing
pub mod Tracing
