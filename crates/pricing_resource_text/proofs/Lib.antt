-- Laws on reading: lines by a schema, and what is read is in range.
pub mod Readings
pub mod Small
pub mod Lines
pub mod Numbered
pub mod Places
pub mod Marking
pub mod FirstWord
