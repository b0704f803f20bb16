-- The laws of this crate.
pub mod Grid
pub mod Spacing
pub mod Stride
pub mod Strobe
pub mod Runs
pub mod Calls
