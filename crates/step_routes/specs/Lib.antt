pub mod System
pub mod Dense
