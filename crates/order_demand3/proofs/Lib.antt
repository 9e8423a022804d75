mod Place
mod Final
mod Blocks
mod Envelope
pub mod Whole
pub mod Carried
pub mod Keys
pub mod Sorted
mod Chosen
mod Levels
mod Distances
pub mod Picks
mod Choices
mod Origins
pub mod Starts
