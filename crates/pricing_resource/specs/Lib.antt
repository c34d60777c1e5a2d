-- Document 01, "Snapshot to reserves": a resource's flags, and which units are counted on line and off line.
pub mod Flag
pub mod Offline
pub mod Online
pub mod Suspect
pub mod internal
