-- The laws of the receiver records as plain records.
pub mod Faithful
pub mod Convert
