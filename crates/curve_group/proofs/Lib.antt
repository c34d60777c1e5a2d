-- Laws that crates above cite, and that the blocks are the posted ones and the seasons the listed ones.
pub mod Season
pub mod Below
pub mod Posted
pub mod Listed
