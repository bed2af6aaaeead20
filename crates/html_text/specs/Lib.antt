-- Claimed.
pub mod Plain
pub mod Texts
