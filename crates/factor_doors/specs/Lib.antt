pub mod Said
pub mod Factorizing
pub mod Solving
