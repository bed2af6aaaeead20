pub mod Pieced
pub mod Found
