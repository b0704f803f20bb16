pub mod Text
pub mod Thousandths
pub mod Defaults
pub mod Content
pub mod None
