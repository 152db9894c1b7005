pub mod Runs
pub mod Words
