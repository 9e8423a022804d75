pub mod Vectors
pub mod Solve
pub mod Rescale
pub mod Inverse
