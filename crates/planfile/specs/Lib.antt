pub mod File
pub mod Head
pub mod Written
