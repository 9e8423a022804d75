pub mod Said
pub mod Responding
