pub mod Answers
pub mod Ordered
pub mod Orders
pub mod Texts
pub mod Times
pub mod Turns
pub mod Whole
pub mod Worked
