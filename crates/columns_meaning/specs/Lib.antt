pub mod Solution
pub mod Computed
pub mod Combined
pub mod Calls
