-- Laws that the functions and crates above cite.
pub mod Distance
pub mod ProbabilityOrder
