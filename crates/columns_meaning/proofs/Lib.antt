mod Parts
mod Step
mod Axis
mod Loop
mod Tally
mod Solve
mod Entry
mod Readings
pub mod Whole
pub mod Calls
