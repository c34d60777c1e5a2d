-- Internals: what the contracts of private functions say. No definition to believe, and no statement, rests on these.
pub mod Heading
pub mod Ids
pub mod Tallied
