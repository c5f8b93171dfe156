mod Added
mod Joined
mod Orders
mod Parted
mod Spread
