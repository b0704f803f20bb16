-- The laws of this crate's definitions.
pub mod Sign
pub mod Derotation
pub mod Quad
pub mod Eight
pub mod Turning
pub mod Errors
pub mod Levels
