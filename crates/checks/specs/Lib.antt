pub mod Range
pub mod Table
