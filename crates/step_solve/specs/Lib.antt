pub mod Said
pub mod Stepping
pub mod Marking
