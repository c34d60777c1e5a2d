-- Document 01, "Programs": what the program `price` makes of its input.
pub mod Program
pub mod Promises
