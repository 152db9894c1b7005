pub mod Numbers
pub mod Slots
pub mod Calls
pub mod Growing
pub mod Hosts
