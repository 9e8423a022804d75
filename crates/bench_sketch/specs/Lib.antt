pub mod Spied
pub mod Prepared
pub mod Sketch
