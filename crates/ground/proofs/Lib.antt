pub mod Choices
pub mod Lists
pub mod First
pub mod Equal
pub mod Parts
pub mod Eights
pub mod Slots
pub mod Copies
