mod Ends
mod ToyRows
