-- Laws that the proofs of several functions share, and that crates above cite.
pub mod Cases
pub mod Readings
pub mod Tallies
pub mod Summing
pub mod Taken
pub mod Snapshots
pub mod HeaderLines
pub mod Entries
pub mod SuspectLine
