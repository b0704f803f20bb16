-- The laws of this crate.
pub mod Fields
pub mod Steps
pub mod Calls
pub mod Reads
pub mod Wanted
pub mod Commands
