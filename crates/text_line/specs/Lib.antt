-- Document 01, "Texts": parts of a byte string, a line, a line of any kind of value, the end of a text.
pub mod Piece
pub mod Judged
pub mod Line
pub mod Field
pub mod Lines
