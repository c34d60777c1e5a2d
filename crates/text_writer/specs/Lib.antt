-- Writing lines by a schema, the lines of a refusal, and rows of a table.
pub mod Write
pub mod Output
pub mod Row
pub mod internal
