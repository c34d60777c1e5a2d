-- Laws on flags, and on which units are counted.
pub mod Flags
pub mod Counted
pub mod Suspects
