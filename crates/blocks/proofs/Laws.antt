-- The laws of this crate's definitions.
pub mod Longer
pub mod Shifted
pub mod Instants
pub mod Timing
pub mod Nothing
pub mod TimingCalls
pub mod Onward
pub mod Carrier
pub mod Received
pub mod Recording
pub mod Taken
pub mod Cuts
