pub mod Buffer
pub mod Lending
pub mod Places
pub mod Readers
pub mod StoreLending
pub mod StoreView
pub mod Stored
pub mod View
