-- Laws that the proofs of several functions share.
pub mod Groups
pub mod Answered
pub mod Numbered
pub mod Calls
pub mod Refusals
pub mod Promises
