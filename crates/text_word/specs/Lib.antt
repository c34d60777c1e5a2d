-- Document 01, "Texts": listed words.
pub mod Word
