pub mod Kinds
pub mod Reached
pub mod Fed
pub mod Ahead
pub mod Pieces
pub mod Table
