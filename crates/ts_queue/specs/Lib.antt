pub mod Passes
pub mod Rule
pub mod Tickets
pub mod Views
