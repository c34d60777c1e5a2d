-- The proofs of the named statements of specs/Promises.antt.
pub mod FirstRefusal
pub mod CurveRoundTrip
pub mod Lengths
pub mod Booked
pub mod Shift
pub mod Promises
pub mod Numbered
pub mod Pages
