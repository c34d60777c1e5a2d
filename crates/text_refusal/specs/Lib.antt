-- Refusals and answers, byte strings.
pub mod Bytes
pub mod Refusal
pub mod Answer
