-- The laws of the timing states as plain records.
pub mod Faithful
