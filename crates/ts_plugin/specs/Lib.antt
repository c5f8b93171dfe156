-- The definitions that the contracts of hook plugins cite.
pub mod Replies
pub mod Lines
pub mod Asked
pub mod World
