pub mod Summed
pub mod Readable
pub mod Said
pub mod Combining
