-- Claimed.
pub mod Arranged
pub mod Audit
pub mod Counts
pub mod Errors
pub mod FaultNames
pub mod Lines
pub mod Order
pub mod Outcome
pub mod Printed
pub mod Told
