pub mod Numbers
pub mod Scans
