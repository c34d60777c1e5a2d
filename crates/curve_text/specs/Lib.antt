-- Document 01, "History to curves": the text of a curve set, read and written. Document 02, W-205: its length before it is written.
pub mod CurveText
pub mod Length
pub mod internal
