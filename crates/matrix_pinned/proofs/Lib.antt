pub mod AnyOrder
pub mod Mirrors
