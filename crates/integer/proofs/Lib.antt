pub mod Bounds
pub mod Difference
pub mod Floor
pub mod Order
pub mod Quadratic
pub mod Ranges
pub mod Signed
