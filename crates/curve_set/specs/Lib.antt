-- Document 01, "History to curves": the curve set, its ranges and its values; refused curves.
pub mod Curves
pub mod CurveValues
