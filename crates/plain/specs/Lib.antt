pub mod Asked
pub mod Engines
pub mod Known
pub mod Letters
pub mod Told
