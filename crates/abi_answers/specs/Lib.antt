pub mod Telling
pub mod Numbers
pub mod Told
pub mod Direct
