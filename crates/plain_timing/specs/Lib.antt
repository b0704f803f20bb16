pub mod Params
pub mod Real
pub mod Complex
