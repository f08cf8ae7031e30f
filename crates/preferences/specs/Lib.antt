pub mod Built
pub mod Candidates
pub mod Relation
pub mod Verdicts
pub mod Counts
pub mod Laws
pub mod Sums
