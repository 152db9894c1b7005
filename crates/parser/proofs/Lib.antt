pub mod Cases
pub mod Machine
pub mod Turns
pub mod Passed
pub mod Outcome
pub mod Quotes
pub mod Counts
pub mod Words
