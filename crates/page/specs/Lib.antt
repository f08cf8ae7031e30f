pub mod Page
pub mod Parts
pub mod Written
