pub mod Early
pub mod Fed
pub mod Inserted
pub mod InsertedStages
pub mod Parting
