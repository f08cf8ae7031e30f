pub mod Alike
pub mod Changed
pub mod Examples
pub mod Filed
pub mod InPlace
pub mod Kept
pub mod ShownBest
