pub mod Done
pub mod Last
pub mod Left
pub mod Requests
pub mod Standing
