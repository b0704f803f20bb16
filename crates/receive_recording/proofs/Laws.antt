-- The laws of this crate.
pub mod Block
pub mod Accepted
pub mod Whole
pub mod Remark
