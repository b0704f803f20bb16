-- The laws of this crate.
pub mod Used
pub mod Direct
pub mod Stops
pub mod Places
pub mod Prefix
pub mod Exact
pub mod Cut
pub mod Taken
pub mod Anew
