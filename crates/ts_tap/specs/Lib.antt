pub mod Limits
pub mod Optional
pub mod Sending
pub mod SentBody
pub mod Sums
pub mod Taps
pub mod Watching
