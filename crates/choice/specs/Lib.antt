pub mod Choice
pub mod Chosen
pub mod Judged
pub mod Search
