-- Laws that the functions and crates above cite.
pub mod CurveText
pub mod CurveCases
pub mod CurveFields
pub mod CurveInRange
pub mod Lengths
