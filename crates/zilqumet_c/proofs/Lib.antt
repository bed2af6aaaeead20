pub mod Values
pub mod SlotValues
pub mod Filling
pub mod Pushed
pub mod Roots
pub mod Edited
pub mod Parted
