mod Outcome
mod RowReadings
