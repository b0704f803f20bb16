-- The laws of this crate's definitions.
pub mod Samples
pub mod Turn
pub mod Calls
pub mod Buffers
pub mod Refusal
pub mod Counter
