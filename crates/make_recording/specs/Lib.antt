pub mod Source
pub mod Wave
