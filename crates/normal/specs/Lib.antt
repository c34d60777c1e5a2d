pub mod Knot
pub mod Normal
pub mod Promises
