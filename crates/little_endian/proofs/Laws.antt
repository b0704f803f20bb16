-- The laws of this crate.
pub mod LittleEndian
pub mod Floats
