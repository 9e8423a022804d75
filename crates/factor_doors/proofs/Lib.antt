mod Readings
mod FactorReadings
pub mod Outcome
