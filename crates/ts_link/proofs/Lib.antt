pub mod CallNumbers
pub mod MemReads
pub mod MemWrites
pub mod PiecesAhead
pub mod StallsAhead
