-- The definitions that the contracts of transactions with layers cite.
pub mod Kept
pub mod Layers
pub mod Links
pub mod Sessions
