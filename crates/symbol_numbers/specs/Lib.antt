pub mod Symbol
pub mod Turned
