pub mod Reading
pub mod Reads
pub mod Desk
pub mod Steps
pub mod Command
