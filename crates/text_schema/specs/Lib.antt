-- Lines by a schema.
pub mod Schema
pub mod Checked
