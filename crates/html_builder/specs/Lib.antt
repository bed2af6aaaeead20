-- Claimed.
pub mod Builders
pub mod Built
pub mod Contexts
pub mod Errors
pub mod Handed
pub mod Outcome
pub mod Plain
pub mod RawTexts
pub mod Saying
pub mod Switches
