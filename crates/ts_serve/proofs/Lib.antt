-- The lemmas of the server of a net, for its own proofs and those of the crates above.
pub mod Balance
pub mod Notes
pub mod Books
pub mod Lived
pub mod Knowledge
pub mod Desks
pub mod Accounts
pub mod Tenants
pub mod Splits
mod Servers
mod Leftovers
mod Serves
mod NowStarted
mod Cleared
mod Closing
mod LookedAt
mod Follows
mod Tried
mod Asked
mod Later
mod Settled
mod Askers
mod Ending
mod Crossing
mod AtPlaces
mod InSession
mod OwnType
mod LeftInSession
mod SessionAskers
mod SessionCrossing
