pub mod Looking
mod Settling
