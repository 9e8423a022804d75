pub mod Whole
pub mod Multiples
