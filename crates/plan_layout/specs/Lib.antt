pub mod EachOnce
pub mod Leftmost
pub mod Starts
pub mod Laid
pub mod Ordering
