pub mod Whole
pub mod Impostors
