pub mod Comments
pub mod Hyphens
