pub mod Day
pub mod Limits
pub mod Border
pub mod Laws
pub mod Answers
pub mod Bank
-- proofs of the laws, which the language wants here: nothing in them has to be believed
pub mod Ramps
pub mod Days
pub mod Eased
