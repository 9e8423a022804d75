-- What the load leaves, and the theorems that other crates may cite (`pub`).
pub mod Look
pub mod Loaded
