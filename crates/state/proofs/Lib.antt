pub mod Numbers
pub mod Refused
pub mod Room
pub mod Spans
