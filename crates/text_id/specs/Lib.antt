-- Document 01, "Texts": ids.
pub mod Id
