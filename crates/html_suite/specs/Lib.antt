-- Claimed.
pub mod Ended
pub mod Report
