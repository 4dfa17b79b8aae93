pub mod Sums
pub mod Ways
pub mod Trees
