pub mod Whole
pub mod Arriving
pub mod Hosts
