pub mod Answers
pub mod Held
pub mod Hosts
