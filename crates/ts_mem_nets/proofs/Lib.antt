mod Naming
mod Ordered
