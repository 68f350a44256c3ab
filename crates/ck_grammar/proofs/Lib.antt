-- The theorems
-- one_expression
pub mod ExpressionsComplete
-- one_declaration, one_statement, one_external, one_file
pub mod FilesComplete
-- reads_expressions
pub mod LongestAnswered
-- one_longest
pub mod OneLongest
-- reads_files
pub mod FilesAnswered
-- fixed_word
pub mod FixedWordsFound
-- Completeness: what is spelled is read
mod OperandsComplete
mod SuffixesComplete
mod CastsComplete
mod LevelsComplete
mod SpecifiersComplete
mod BodiesComplete
mod DeclaratorsComplete
mod InitialisersComplete
mod DeclarationsComplete
mod StatementsComplete
-- where an expression is written, one at least as long is read
mod LongestReached
-- Soundness: what is read is spelled so
mod ReaderAnswers
mod ExpressionsSound
mod TypesSound
pub mod ReadersSound
mod InitialisersSound
pub mod StatementsSound
-- Words: what one tells, what a part begins with and ends at
mod WordsTold
mod Texts
mod Heads
mod StatementsHeads
mod Labels
mod Stops
mod TypeStops
-- Levels and lengths
mod Levels
mod Lengths
mod StatementsLengths
pub mod Appended
-- Worked texts
pub mod Grouping
mod WorkedOperators
mod WorkedStatements
mod WorkedTypes
pub mod Worked
mod WorkedDepth
