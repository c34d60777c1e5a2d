-- Document 01, "Snapshot to reserves": the text of one resource, its kind and its fields.
pub mod Resource
pub mod internal
