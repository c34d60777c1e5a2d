-- Laws that the proofs of several functions share.
pub mod Listed
pub mod Marked
pub mod Room
pub mod ByKind
pub mod RowTexts
pub mod Cases
pub mod Short
