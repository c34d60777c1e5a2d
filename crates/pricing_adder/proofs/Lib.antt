-- Laws on reserves and prices that crates above cite.
pub mod Accepted
pub mod Bounds
pub mod Order
pub mod Prices
pub mod Steps
pub mod Tested
