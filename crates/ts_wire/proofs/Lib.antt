mod BlankLines
mod BodyLemmas
pub mod CheckLemmas
pub mod CheckedRequest
mod CutLemmas
mod ForwardLemmas
pub mod FrontLemmas
mod FramingLemmas
pub mod HeadLemmas
pub mod HeaderRules
pub mod HexLemmas
mod LineLemmas
pub mod PlainFields
pub mod Refusals
pub mod RequestLemmas
mod ResponseLemmas
mod SectionLemmas
mod StepLemmas
mod TrailerLemmas
mod TrimTwice
pub mod FrameFronts
pub mod FrameLemmas
pub mod FrontBody
pub mod OneBody
pub mod OneRequest
pub mod OneResponse
pub mod PlaceBody
pub mod PlainForward
pub mod SentRequest
pub mod SentResponse
pub mod SentBlank
pub mod SentUpload
pub mod Sizes
pub mod ShortLines
