pub mod Loads
pub mod Computes
pub mod Combines
pub mod Blocks
