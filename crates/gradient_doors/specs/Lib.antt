pub mod Said
pub mod Solving
pub mod Updating
