pub mod BodyLinks
pub mod Duties
pub mod Entering
pub mod Feeding
pub mod Finishing
pub mod LoweringBody
pub mod Relaying
pub mod StepsOwed
