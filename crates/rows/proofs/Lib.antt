pub mod Calls
pub mod Lists
pub mod Records
pub mod Theorems
pub mod Way
pub mod Worked
