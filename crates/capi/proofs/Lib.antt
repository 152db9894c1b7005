pub mod Calls
pub mod Growing
pub mod Hosts
pub mod Marks
pub mod Numbers
pub mod Puts
pub mod Rounds
pub mod Runs
