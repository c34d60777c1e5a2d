-- Laws of the crate: what a raised snapshot and settled curves give, and demand 3.
pub mod Pricing
pub mod Raised
pub mod Settling
pub mod Small
pub mod Promises
pub mod Numbered
pub mod ResourceTrip
pub mod RowsTrip
pub mod SnapshotTrip
pub mod HeldRows
pub mod Held
pub mod Marks
