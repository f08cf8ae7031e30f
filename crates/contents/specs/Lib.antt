pub mod Content
pub mod Drafts
pub mod Held
pub mod List
pub mod Memory
pub mod Refusals
