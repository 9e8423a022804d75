pub mod Whole
pub mod Sqrt
