-- Document 02, W-204: a snapshot's text read into values.
pub mod Reading
pub mod internal
