pub mod Said
pub mod Showing
pub mod Meaning
pub mod Finding
