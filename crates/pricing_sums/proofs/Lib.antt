-- Laws on the header's numbers, on the sums, and on what each resource adds to them.
pub mod Headers
pub mod SumsBounds
pub mod Addition
pub mod Parts
