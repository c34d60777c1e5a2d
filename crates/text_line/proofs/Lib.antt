-- Laws that the proofs of several functions share, and that crates above cite.
pub mod Pieces
pub mod Marks
pub mod Parts
pub mod DueLines
pub mod Fields
pub mod LineBytes
pub mod FieldTexts
