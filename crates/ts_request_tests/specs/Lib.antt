-- The definitions that the contracts of the tests cite.
pub mod Telling
