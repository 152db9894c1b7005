pub mod Attributes
pub mod Inside
