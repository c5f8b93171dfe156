pub mod Left
pub mod Made
pub mod Rows
