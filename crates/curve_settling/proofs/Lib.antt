-- Laws that the proofs of functions and crates above cite.
pub mod Range
pub mod Settled
pub mod Turn
