mod Readings
pub mod Fits
pub mod Lists
