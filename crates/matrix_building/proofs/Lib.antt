mod Readings
mod SaidReadings
pub mod Building
pub mod FromPairs
