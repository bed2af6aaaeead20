pub mod Texts
pub mod Ascii
pub mod Encoding
pub mod PlainTexts
pub mod Marks
