pub mod Outcome
mod SaidReadings
mod MarkedReadings
