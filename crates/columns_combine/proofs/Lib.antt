pub mod Samples
mod Readings
