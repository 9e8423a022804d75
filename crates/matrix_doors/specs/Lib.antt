pub mod Said
pub mod Indexing
pub mod Clearing
pub mod Multiplying
pub mod Pinning
pub mod PinningMarked
