pub mod Choosing
pub mod Filling
pub mod Resolving
pub mod Running
pub mod Twos
