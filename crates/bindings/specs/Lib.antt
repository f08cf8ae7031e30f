pub mod Asked
pub mod Numbers
pub mod Outcomes
pub mod Questions
