-- Laws that the proofs of several functions share, and that crates above cite.
pub mod Schemas
pub mod Readings
pub mod Moved
pub mod Fields
pub mod Written
pub mod Checked
pub mod Marks
pub mod MarkedWidths
