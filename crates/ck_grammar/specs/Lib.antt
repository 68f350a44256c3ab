-- What is promised
pub mod Spelling
pub mod Answers
pub mod FixedWords
-- What it rests on: trees, and which tokens they spell
pub mod Trees
pub mod Statements
pub mod Levels
pub mod Words
pub mod Written
pub mod StatementsWritten
pub mod Specified
pub mod Fitting
pub mod StatementsFitting
pub mod Nesting
pub mod StatementsNesting
-- The readers of tokens, which parsers equal
pub mod Readers
pub mod ReadingExpressions
pub mod ReadingTypes
pub mod Reading
pub mod Phrases
pub mod ReadingStatements
-- Private
pub mod Candidates
