pub mod Apart
pub mod Beside
pub mod Climbing
pub mod Letters
pub mod Lifting
pub mod Placed
