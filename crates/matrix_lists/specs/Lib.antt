pub mod Ways
pub mod Filed
pub mod Chain
pub mod Turned
pub mod Front
