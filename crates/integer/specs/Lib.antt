pub mod Floor
pub mod Order
pub mod Quadratic
pub mod Range
