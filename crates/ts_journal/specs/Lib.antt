-- The definitions that the contracts of a journal cite.
pub mod State
pub mod Machine
pub mod Log
pub mod Final
pub mod Tally
pub mod Tables
pub mod Laws
pub mod Later
