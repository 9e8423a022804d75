pub mod Said
pub mod Building
pub mod FromPairs
