pub mod Passes
mod Language
mod Readings
mod Filling
pub mod Buffers
pub mod Nine
pub mod Reading
