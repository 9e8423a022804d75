pub mod Rescale
mod Readings
