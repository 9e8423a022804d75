pub mod Plane
pub mod Lent
