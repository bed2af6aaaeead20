pub mod Answers
pub mod Causes
pub mod Ended
pub mod Fronts
pub mod Read
