pub mod CommandLine
pub mod Faults
pub mod Handed
pub mod Whole
