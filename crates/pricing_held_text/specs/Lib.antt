-- Document 02, W-204: the text of a snapshot held as values.
pub mod Writing
pub mod internal
