pub mod Units
pub mod Sorting
pub mod Bytes
pub mod AtNode
pub mod Walks
pub mod Xmlns
pub mod Pieced
pub mod Lines
