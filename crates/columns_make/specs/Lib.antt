pub mod Said
pub mod Making
