pub mod Answers
pub mod Rows
pub mod Table
pub mod Words
