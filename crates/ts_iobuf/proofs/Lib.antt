pub mod Cutting
pub mod Growing
pub mod Lent
pub mod Places
pub mod Storing
