-- What the functions' proofs share, and the theorems that other crates may cite (`pub`).
pub mod Whole
pub mod Nearest
mod Newton
mod Splitting
mod Values
mod Scaling
mod Pattern
mod Branches
mod Middles
mod Fractions
pub mod Rounding
pub mod Fixed
pub mod Above
mod Readings
pub mod Outcome
