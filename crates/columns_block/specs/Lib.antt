pub mod Said
pub mod Blocking
