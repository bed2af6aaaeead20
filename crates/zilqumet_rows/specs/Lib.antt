-- Claimed.
pub mod Entries
pub mod Texts
