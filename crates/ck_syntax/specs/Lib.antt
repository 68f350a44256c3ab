-- What is promised
pub mod Ends
pub mod Shapes
-- What it rests on
pub mod Calls
pub mod Rows
-- From memory to plain values
pub mod ExpressionViews
pub mod InitialiserViews
pub mod DeclarationViews
pub mod StatementViews
