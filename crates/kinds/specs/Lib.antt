pub mod Kinds
pub mod Sheets
-- proofs of the laws, which the language wants here: nothing in them has to be believed
pub mod Passed
pub mod SheetedLaws
