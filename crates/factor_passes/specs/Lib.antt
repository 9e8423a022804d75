pub mod Passes
pub mod Held
pub mod PassMeaning
