-- Claimed.
pub mod AdoptFinding
pub mod Adopting
pub mod Attributes
pub mod Cloning
pub mod Entries
pub mod Hanging
pub mod Inserting
pub mod Leaving
pub mod Lists
pub mod Marking
pub mod Opened
pub mod Outcome
pub mod Placing
pub mod Reopening
pub mod Rooting
pub mod Scopes
-- For this crate's own functions.
pub mod ReopenedEntry
pub mod Searches
