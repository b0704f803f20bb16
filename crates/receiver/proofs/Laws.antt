-- The laws of this crate's definitions.
pub mod Setup
pub mod Values
pub mod Loops
