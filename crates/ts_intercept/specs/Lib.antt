-- The definitions that the contracts of server intercepts cite.
pub mod Limits
pub mod Gone
pub mod Served
pub mod Deciding
pub mod Seen
pub mod Standing
pub mod Moving
pub mod Going
pub mod Uploading
pub mod Answered
pub mod Named
