pub mod InMemory
pub mod Uploads
