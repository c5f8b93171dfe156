pub mod OneBlock
pub mod OneHead
pub mod PlainRules
pub mod Saying
pub mod Searching
pub mod SentOnce
pub mod BlockRequest
