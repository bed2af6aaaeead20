-- Claimed.
pub mod Line
pub mod Read
