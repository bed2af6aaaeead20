pub mod Adjusted
pub mod Begins
pub mod Cases
pub mod Known
pub mod Locals
pub mod Numbers
pub mod Spaces
