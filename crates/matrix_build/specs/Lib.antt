pub mod Swept
pub mod Filled
pub mod Build
pub mod Built
