-- Claimed.
pub mod Contents
pub mod Elements
pub mod Likeness
pub mod OnePage
pub mod Outcomes
pub mod Reads
