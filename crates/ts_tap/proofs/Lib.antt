pub mod HeadEnds
pub mod PrintedHeads
pub mod Seeing
pub mod SentBodies
pub mod Showing
pub mod Summing
pub mod Writing
pub mod Tails
