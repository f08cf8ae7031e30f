pub mod BestWord
pub mod Greedy
pub mod Least
pub mod Sums
pub mod Sieve
pub mod Rows
pub mod Offers
pub mod Samples
