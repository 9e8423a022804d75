mod OfFactorize
mod OfStepMatrix
mod OfSolve
pub mod Whole
mod Readings
