pub mod Bounds
pub mod Lines
