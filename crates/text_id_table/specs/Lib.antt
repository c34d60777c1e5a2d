-- Document 01, refusal 8: ids among others.
pub mod Ids
pub mod Table
pub mod internal
