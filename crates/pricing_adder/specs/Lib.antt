-- Document 01, "Snapshot to reserves" after the sums, and "The two prices".
pub mod Reserve
pub mod Price
