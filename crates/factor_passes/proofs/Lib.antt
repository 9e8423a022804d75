mod PassReadings
pub mod Held
pub mod PassMeaning
