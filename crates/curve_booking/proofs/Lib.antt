-- Laws that the proofs of several functions share, and that crates above cite.
pub mod Closure
pub mod Booked
pub mod LoweredErrors
