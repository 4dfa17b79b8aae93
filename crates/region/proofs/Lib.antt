pub mod Refusals
pub mod Periods
pub mod Arrays
pub mod Nets
pub mod Assessing
pub mod Staging
pub mod Begins
pub mod Records
