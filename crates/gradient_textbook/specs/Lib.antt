pub mod Method
pub mod Trace
pub mod Door
