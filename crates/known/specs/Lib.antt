-- Document 01, "Known values" and "Traps", and document 02: what is computed, what it is to be, and the common statement.
pub mod Statement
pub mod Probability
pub mod Settling
pub mod Pricing
pub mod Page
pub mod Group
pub mod Held
pub mod Length
pub mod Marks
pub mod Known
