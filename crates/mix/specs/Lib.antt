pub mod Oscillator
pub mod Quarter
