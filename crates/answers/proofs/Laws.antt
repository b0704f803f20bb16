-- The laws of this crate's definitions and tests.
pub mod Alike
pub mod Spelling
pub mod Slices
pub mod Line
