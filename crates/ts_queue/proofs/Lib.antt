mod Counts
mod Steps
pub mod Whole
