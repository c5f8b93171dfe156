mod Alone
pub mod Ended
mod Ends
mod Entries
mod Groups
pub mod Joins
pub mod Known
pub mod Again
mod Moves
mod Openings
pub mod Rows
pub mod Seats
mod Standing
mod Starts
mod Telling
mod Tokens
mod Uses
mod Worked
pub mod Ran
