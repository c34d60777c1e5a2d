pub mod Table
pub mod Order
pub mod Known
pub mod Four
