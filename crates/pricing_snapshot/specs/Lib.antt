-- Document 01, "Snapshot to reserves": the snapshot text.
pub mod Snapshot
pub mod Promises
pub mod internal
