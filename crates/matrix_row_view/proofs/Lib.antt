mod Readings
pub mod Outcome
pub mod Finding
pub mod Meaning
pub mod Showing
