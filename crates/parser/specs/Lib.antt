pub mod Machine
pub mod Passed
pub mod Element
pub mod Marks
pub mod First
pub mod Hyphens
