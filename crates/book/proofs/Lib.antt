pub mod Orders
pub mod Joining
