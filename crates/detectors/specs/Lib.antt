pub mod Detector
pub mod Lock
pub mod Turns
