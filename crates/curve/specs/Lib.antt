-- What is promised of curves.
pub mod FirstRefusal
pub mod Lists
pub mod Promises
