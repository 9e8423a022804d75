mod Meeting
pub mod Exploring
