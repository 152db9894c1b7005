pub mod Balance
pub mod Calls
