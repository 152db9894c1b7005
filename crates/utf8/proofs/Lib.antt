pub mod Table
pub mod Chars
pub mod Rfc
pub mod Turns
pub mod Ascii
pub mod Places
