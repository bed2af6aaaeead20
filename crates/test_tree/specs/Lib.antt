-- For this crate's own functions.
pub mod Pages
