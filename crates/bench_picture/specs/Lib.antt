pub mod Pixels
pub mod Ready
pub mod Panels
pub mod Shown
pub mod Drawing
