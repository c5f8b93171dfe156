-- The lemmas of a journal, for its own proofs and those of the crates above.
pub mod Cases
pub mod Scans
pub mod Steps
pub mod Keys
pub mod Events
pub mod Lookups
pub mod Lawful
pub mod Validity
pub mod Facts
pub mod Later
pub mod Extends
pub mod Folding
pub mod Final
