pub mod Time
pub mod Order
pub mod Outcome
pub mod Told
pub mod Column
pub mod Inside
pub mod Table
pub mod Words
