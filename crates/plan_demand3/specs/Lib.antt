pub mod Door
pub mod Built
