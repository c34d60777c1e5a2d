-- Document 01, "The two prices": the two probabilities.
pub mod Probability
pub mod internal
