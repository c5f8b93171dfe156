pub mod Begun
pub mod ByFinish
pub mod Ordered
pub mod Rows
