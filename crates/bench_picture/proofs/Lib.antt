mod Lines
mod Header
pub mod Shown
