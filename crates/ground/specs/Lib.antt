pub mod Alike
pub mod Bytes
pub mod Choose
pub mod Equal
pub mod Least
pub mod Part
