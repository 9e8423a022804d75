pub mod Fits
pub mod Lists
pub mod Cells
pub mod Same
pub mod Given
pub mod Layout
