pub mod Load
pub mod Permuted
