pub mod Product
pub mod Blocks
