pub mod Arrivals
pub mod Hosts
