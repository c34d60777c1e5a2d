-- Laws that the proofs of several functions share, and that crates above cite.
pub mod Ids
pub mod Slots
pub mod Table
