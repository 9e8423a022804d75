mod Readings
pub mod Outcome
mod SaidReadings
pub mod Planning
