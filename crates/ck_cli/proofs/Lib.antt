-- The theorems: no files have two answers; at 0 the kernel's counters halt nowhere
pub mod OneAnswer
pub mod Quiet
-- What the functions found is the answer by the definitions
pub mod AnswerLemmas
pub mod VerdictLemmas
pub mod ProjectLemmas
-- The file form: one form for tokens, and where tokens stop being one
pub mod OneForm
pub mod StrayLemmas
-- Completeness: a prefix of a file of the form is read
pub mod FormComplete
-- Soundness: what was read is a prefix of a file of the form
pub mod FormSound
pub mod FormPrefixes
pub mod ReadingLemmas
-- The walk and the kernel's counters
pub mod WalkLemmas
pub mod KernelLemmas
-- Words, tokens, positions, places and texts
pub mod WordLemmas
pub mod LexemeLemmas
pub mod DeclaredLemmas
pub mod Positions
pub mod PlaceLemmas
pub mod TextLemmas
pub mod Cases
