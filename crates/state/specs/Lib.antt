pub mod Limits
pub mod Place
pub mod Settings
pub mod Values
pub mod Make
