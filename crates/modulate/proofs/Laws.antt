-- The laws of this crate's definitions.
pub mod Rounded
pub mod StepBits
pub mod Fields
pub mod Stepped
pub mod LowBits
pub mod Wide
pub mod StepSingle
pub mod Zeros
pub mod Cases
