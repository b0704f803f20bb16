pub mod Record
pub mod Loops
