pub mod Reading
pub mod Marks
pub mod Taken
pub mod Rule
