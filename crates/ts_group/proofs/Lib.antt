-- The lemmas of a group, for its own proofs and those of the crates above.
pub mod Room
pub mod Facts
pub mod Acts
pub mod Grows
pub mod Scans
pub mod Late
pub mod Roles
pub mod Drops
pub mod First
pub mod Runs
pub mod Results
pub mod Keeps
pub mod Slots
