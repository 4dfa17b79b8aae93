pub mod Seen
pub mod Staging
