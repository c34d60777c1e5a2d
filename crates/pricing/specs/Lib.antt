-- Document 01, "Snapshot to reserves" and "The two prices": pricing a snapshot; the statements of demands 1 to 3.
pub mod Pricing
pub mod Promises
pub mod Held
pub mod Marks
