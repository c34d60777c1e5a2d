-- Laws that the proofs of several functions share, and that crates above cite.
pub mod Choices
pub mod Refusals
pub mod MapErr
