pub mod Taking
pub mod SettleLine
pub mod Hours
pub mod Promises
pub mod OneByte
pub mod Feeding
pub mod SettleLines
pub mod Printing
