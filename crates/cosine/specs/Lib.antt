pub mod Bits
pub mod Table
pub mod Rules
pub mod Cosine
pub mod Nearest
