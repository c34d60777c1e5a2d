-- Internals: what laws, and the contracts of private functions here and in crates above, say. No definition to believe, and no statement, rests on these.
pub mod Counted
pub mod Keys
pub mod Signed
