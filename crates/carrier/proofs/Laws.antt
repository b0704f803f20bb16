-- The laws of this crate's definitions.
pub mod Setup
pub mod Gains
pub mod Refused
pub mod Count
pub mod Carried
pub mod Given
pub mod Inside
pub mod Untouched
pub mod TurnedRun
pub mod Turned
pub mod Cases
