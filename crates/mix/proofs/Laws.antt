-- The laws of this crate's definitions.
pub mod Fraction
pub mod Quarter
pub mod Cosine
