pub mod Calls
pub mod Impostors
