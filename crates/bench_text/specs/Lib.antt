pub mod Text
pub mod Nine
pub mod Buffer
pub mod Head
pub mod Reading
