pub mod Cuts
pub mod Once
pub mod Passed
pub mod Outside
pub mod Rooms
pub mod States
pub mod Written
