pub mod Frame
pub mod Play
pub mod Compare
