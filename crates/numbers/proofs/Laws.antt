-- The laws of this crate's definitions.
pub mod Denormal
pub mod Whole
pub mod Part
pub mod Beside
pub mod Range
pub mod Narrowing
pub mod Shifting
pub mod Places
pub mod Widening
pub mod Sign
