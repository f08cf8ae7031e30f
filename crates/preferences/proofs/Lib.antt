pub mod Points
pub mod Tables
pub mod Tallies
pub mod Masks
pub mod Aliases
pub mod Places
