pub mod Order
pub mod Envelope
pub mod Tight
pub mod Keys
pub mod Marks
pub mod Searches
mod Readings
