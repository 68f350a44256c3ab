-- Sources with other typedef names
mod SameMarks
-- Declarations
mod NoTypes
mod TypeLists
mod TypeDeclarations
-- External declarations and files
mod Wholes
mod FileLoop
