-- Laws that the proofs of several functions share, and that crates above cite.
pub mod Digits
pub mod Naturals
pub mod Numbers
pub mod Fields
pub mod Marks
pub mod WrittenDigits
pub mod MarkedDigits
pub mod LastByte
