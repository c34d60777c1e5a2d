-- Laws that the proofs of several functions share.
pub mod Standing
pub mod Words
pub mod Numbers
pub mod Readings
pub mod RowsRead
pub mod IdsRead
pub mod EntryRows
pub mod Held
pub mod Definitions
