-- Document 02, W-204: a snapshot held as values, and the lines of its text.
pub mod Rows
pub mod Lines
pub mod internal
