-- The definitions that the contracts of a client that waits cite.
pub mod Waiting
