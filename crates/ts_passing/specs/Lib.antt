pub mod Feeding
pub mod Inserted
pub mod Lines
pub mod Sends
