pub mod Text
pub mod Reference
pub mod Bang
pub mod Question
pub mod Start
pub mod End
