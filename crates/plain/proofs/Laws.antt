-- The laws of the codes, of set-ups by codes, and of records that stand for states.
pub mod Codes
pub mod SetUp
pub mod Header
pub mod Recorded
