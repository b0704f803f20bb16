-- The laws of this crate's definitions.
pub mod Symbol
pub mod Turned
pub mod Points
