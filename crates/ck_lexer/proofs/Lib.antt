-- The theorems
pub mod OneCut
pub mod OnePlace
pub mod Rising
mod OneLexeme
mod OneMarker
-- The first lexeme is what is scanned
mod FirstLexemes
mod FirstBytes
mod Longest
mod LongestNumber
mod LongestLiteral
mod LongestMark
mod Punctuators
mod Closing
mod LiteralLemmas
mod CommentLemmas
mod Characters
mod FlagLemmas
mod Values
mod Sizes
-- Tokens so far
mod Kept
-- Lines so far, and the places that they give
mod WithinLine
mod LinesKept
mod LinesFound
mod LineStarts
mod LastLine
mod Feeds
mod LexemeMarkers
-- Runs by blocks
mod BlockLemmas
-- Plain facts, and worked bytes
mod Tests
mod Worked
