pub mod Sides
pub mod Sets
