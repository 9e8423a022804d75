mod Run
mod Solve
mod Exists
pub mod Whole
