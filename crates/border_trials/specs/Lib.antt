pub mod Shut
-- the proof of the laws, which the language wants here: nothing in it has to be believed
pub mod Closed
