-- What comes first
mod FirstTokens
-- From parts to the whole
mod Tests
mod LoopParts
mod Heads
-- Items
mod ItemLoop
