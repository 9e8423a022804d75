pub mod Counts
pub mod Marks
pub mod Steps
pub mod Responses
