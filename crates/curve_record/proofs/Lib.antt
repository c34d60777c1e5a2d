-- Laws that the proofs of several functions share, and that crates above cite.
pub mod RecordGroups
pub mod PossibleGroups
pub mod SquaresFit
pub mod Turns
pub mod Lowered
