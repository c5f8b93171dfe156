-- The definitions that the contracts of the driver cite.
pub mod Driven
pub mod Peers
pub mod Recorded
pub mod Sets
pub mod Toys
