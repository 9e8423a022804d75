pub mod Dirichlet
pub mod Mirrors
pub mod Marked
