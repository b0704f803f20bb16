pub mod Codes
pub mod SetUp
pub mod Header
pub mod Faithful
