pub mod Answers
pub mod Scalar
pub mod Reference
pub mod Text
pub mod Inside
pub mod Words
pub mod Table
