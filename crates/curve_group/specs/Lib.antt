-- Document 01, "History to curves": season, block and group; document 02, W-202: the time blocks; W-203: the listed seasons.
pub mod Season
pub mod Posted
pub mod Listed
