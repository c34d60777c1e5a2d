-- Laws that the proofs of several functions share, and that crates above cite.
pub mod Values
pub mod Runs
pub mod Hours
pub mod HourCases
