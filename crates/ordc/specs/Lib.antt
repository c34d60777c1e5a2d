-- What the functions that hosts link do, over bytes and numbers alone: the layout of record and curve set, and the effect of each function.
pub mod Reply
pub mod Record
pub mod CurveText
pub mod Page
pub mod Price
pub mod Snapshot
pub mod Calls
pub mod Promises
