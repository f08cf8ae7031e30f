pub mod BestAndEqual
pub mod Calls
pub mod Files
pub mod Lent
pub mod Questions
pub mod Reference
pub mod States
