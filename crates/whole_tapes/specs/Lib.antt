pub mod Tape
pub mod Stops
pub mod Direct
