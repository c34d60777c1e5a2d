-- Document 02, W-201: the curve page.
pub mod Page
pub mod internal
