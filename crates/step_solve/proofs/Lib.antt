mod Readings
mod MarkReadings
