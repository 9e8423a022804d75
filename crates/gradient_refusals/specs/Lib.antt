pub mod Settings
pub mod Solving
pub mod Updating
