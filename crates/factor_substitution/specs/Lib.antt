pub mod Solve
pub mod Calls
pub mod Meaning
