-- Document 01, "History to curves": the record, mu and V of a group, and when a record is impossible (1).
pub mod Record
pub mod Possible
pub mod Squares
pub mod internal
