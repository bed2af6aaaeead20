-- Claimed.
pub mod Closing
pub mod Foreign
pub mod Forests
pub mod Groups
pub mod Inserting
pub mod Listing
pub mod OpenTags
pub mod Paragraphs
pub mod Proper
pub mod Searching
pub mod Seats
pub mod Since
pub mod States
pub mod Steps
pub mod Targets
pub mod Texts
