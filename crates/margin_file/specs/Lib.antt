pub mod Faults
pub mod Samples
pub mod Texts
pub mod Cuts
