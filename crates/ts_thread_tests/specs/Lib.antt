pub mod Peers
pub mod ToyRows
