pub mod Keeping
pub mod Layering
pub mod Leaving
pub mod Telling
