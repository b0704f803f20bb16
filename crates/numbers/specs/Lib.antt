pub mod Denormal
pub mod Whole
pub mod Narrowing
pub mod Range
pub mod Sign
