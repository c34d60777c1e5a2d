-- Document 01, "History to curves": one hour's text, its reserves and the reserve error.
pub mod Hour
pub mod internal
