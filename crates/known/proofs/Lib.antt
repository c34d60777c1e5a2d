-- The known values hold, by computation; examples tell the definitions from wrong programs; and the hypotheses of demand 3 can be met.
pub mod Probability
pub mod Settling
pub mod Pricing
pub mod Page
pub mod Group
pub mod Held
pub mod Length
pub mod Marks
pub mod Known
pub mod BookingExamples
pub mod PriceExamples
pub mod Witness
