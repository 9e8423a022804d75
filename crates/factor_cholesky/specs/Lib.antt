pub mod Factorize
pub mod StepMatrix
pub mod Solve
