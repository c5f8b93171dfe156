-- The definitions that the contracts of a group cite.
pub mod Context
pub mod Entries
pub mod Changes
pub mod Acts
pub mod Late
pub mod Limits
pub mod Alone
pub mod Calls
pub mod Due
pub mod Answers
pub mod Standing
pub mod Slot
pub mod Either
