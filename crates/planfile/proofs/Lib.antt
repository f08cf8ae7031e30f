pub mod Coding
pub mod Deciding
pub mod Files
pub mod Roundtrip
