-- Document 02, W-201: what the program `page` makes of its input.
pub mod Program
pub mod Promises
