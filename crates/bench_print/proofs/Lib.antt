mod Numbers
mod Lists
pub mod Lengths
mod Readings
pub mod Digits
