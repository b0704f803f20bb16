-- The laws of this crate.
pub mod Front
pub mod Digits
pub mod Lines
pub mod Defaults
pub mod Content
pub mod None
