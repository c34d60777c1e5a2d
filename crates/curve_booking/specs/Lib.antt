-- Document 01, "History to curves": booking an hour on the record.
pub mod Booking
