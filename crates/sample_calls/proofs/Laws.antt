-- The laws of this crate's definitions.
pub mod Refused
pub mod Values
pub mod Given
pub mod Accepted
pub mod Sparing
pub mod Count
pub mod Uncounted
pub mod Turned
pub mod Premise
pub mod Cases
