-- Document 01, "History to curves": settling.
pub mod Settle
