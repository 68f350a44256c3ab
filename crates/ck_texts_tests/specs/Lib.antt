-- Private
pub mod Fitting
