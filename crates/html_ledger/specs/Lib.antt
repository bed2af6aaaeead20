-- Claimed.
pub mod Entries
pub mod Errors
pub mod Fated
pub mod Fates
pub mod Flags
pub mod Known
pub mod MayDrop
pub mod Runs
pub mod Settings
pub mod Spaces
pub mod Symbols
pub mod Texts
