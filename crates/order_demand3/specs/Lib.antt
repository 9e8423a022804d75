pub mod Demand
pub mod Keys
pub mod Picks
pub mod Starts
