pub mod Instants
pub mod Runs
pub mod Timing
pub mod Carrier
pub mod Receiver
