-- What is promised: which typed tree an expression's number stands for
pub mod Walked
pub mod Made
-- From memory to plain values
pub mod SenseViews
pub mod StepValues
pub mod Finding
