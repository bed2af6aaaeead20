-- Claimed.
pub mod Allowed
pub mod Attributes
pub mod Edits
pub mod Names
pub mod Places
pub mod Reads
-- For this crate's own functions.
pub mod Lifting
