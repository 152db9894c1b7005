pub mod Asked
pub mod Cut
pub mod Left
pub mod Names
pub mod Sound
pub mod Step
