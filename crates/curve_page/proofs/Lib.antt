-- Laws that the proofs of several functions share, and that crates above cite.
pub mod Above
pub mod Pages
pub mod PageCases
