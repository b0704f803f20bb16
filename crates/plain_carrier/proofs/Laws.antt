-- The laws of the carrier's state as a plain record.
pub mod Faithful
