pub mod Utf8
pub mod Ascii
