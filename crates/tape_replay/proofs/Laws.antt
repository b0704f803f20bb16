-- The laws of this crate's definitions.
pub mod Frame
pub mod Compare
