pub mod Takes
pub mod Banked
pub mod Ramping
pub mod Steps
