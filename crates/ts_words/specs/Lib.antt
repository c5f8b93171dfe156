pub mod Found
pub mod Serve
