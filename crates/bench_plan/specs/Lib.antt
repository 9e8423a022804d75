pub mod Outcome
pub mod Built
pub mod Fronts
pub mod Read
pub mod Told
