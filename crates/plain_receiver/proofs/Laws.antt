-- The laws of the receiver as a plain record.
pub mod Receiver
