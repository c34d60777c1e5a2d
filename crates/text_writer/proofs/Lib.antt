-- Laws that the proofs of several functions share, and that crates above cite.
pub mod Keys
pub mod WholeKeys
pub mod Laid
pub mod Writing
pub mod Refused
pub mod BySchema
pub mod ShortLines
pub mod MarkedLines
pub mod Counted
pub mod DigitCount
pub mod Rows
