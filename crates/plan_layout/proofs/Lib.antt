pub mod Lesser
