-- Laws that the proofs of several functions share, and that crates above cite.
pub mod Counts
pub mod Chunks
pub mod Numbers
pub mod RowLines
pub mod RowChecks
pub mod RowsChecks
pub mod Held
pub mod Definitions
pub mod Suspects
