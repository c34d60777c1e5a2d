-- The proofs of the named statements of specs/Promises.antt, and laws that crates above cite.
pub mod RoundTrip
pub mod Values
pub mod Checked
