pub mod Ranges
pub mod Grounds
pub mod Sums
pub mod Capacities
pub mod Margins
pub mod Reserves
