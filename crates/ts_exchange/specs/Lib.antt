-- The definitions that the contracts of transactions between plain links cite.
pub mod Ends
pub mod Left
pub mod Plugins
pub mod Rows
