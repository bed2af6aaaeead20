-- Claimed.
pub mod Audits
pub mod Causes
pub mod Edits
pub mod Kept
pub mod Pieces
pub mod Places
pub mod Reads
pub mod Status
