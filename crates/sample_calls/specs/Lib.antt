pub mod Call
pub mod Calls
pub mod Uncounted
pub mod Sparing
pub mod Cases
