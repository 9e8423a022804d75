mod Readings
pub mod Search
