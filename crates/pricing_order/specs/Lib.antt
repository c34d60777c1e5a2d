-- Document 01, demand 3: the order of prices, over sums and header numbers.
pub mod Promises
