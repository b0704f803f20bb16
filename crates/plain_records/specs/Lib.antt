pub mod Records
pub mod Convert
