-- The integer square root.
pub mod Root
