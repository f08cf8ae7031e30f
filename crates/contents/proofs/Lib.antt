pub mod Bases
pub mod Keeps
pub mod Membership
pub mod Outcomes
