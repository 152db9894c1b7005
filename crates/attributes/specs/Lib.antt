pub mod Answers
pub mod Grammar
pub mod Tag
pub mod Inside
pub mod Words
pub mod Table
