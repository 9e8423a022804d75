mod Answers
mod Left
mod Pairs
pub mod Whole
mod Readings
