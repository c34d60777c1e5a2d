-- What the text storey promises.
pub mod Promises
