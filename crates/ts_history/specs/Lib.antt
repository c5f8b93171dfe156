-- The definitions of what the transactions of one connection were.
pub mod Done
pub mod History
pub mod Sessions
