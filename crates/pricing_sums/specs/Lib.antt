-- Document 01, "Snapshot to reserves": the header's numbers, the sums, and what each resource adds to them.
pub mod Header
pub mod Sums
pub mod Part
pub mod internal
