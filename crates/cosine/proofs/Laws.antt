-- The laws of this crate's definitions.
pub mod Rules
pub mod System
pub mod Doubling
pub mod Gap
pub mod Nearest
pub mod Once
