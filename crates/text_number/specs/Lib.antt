-- Document 01, "Texts": numbers.
pub mod Number
pub mod Field
pub mod Marked
pub mod internal
