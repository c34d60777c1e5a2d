-- Document 01, "Programs": what the program `curves` makes of its input, and how it takes the input in parts.
pub mod Program
pub mod Stream
pub mod Promises
pub mod internal
