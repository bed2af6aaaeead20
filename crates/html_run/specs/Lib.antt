-- Claimed.
pub mod Answers
pub mod Jobs
pub mod Refused
