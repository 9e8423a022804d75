mod Readings
pub mod Parts
