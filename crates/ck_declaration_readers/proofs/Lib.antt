-- reads_block_declarations
mod BlockDeclarations
-- Loops
mod DeclaredLoop
mod Links
mod InitLoops
-- From parts to the whole
mod Declared
mod Initialised
