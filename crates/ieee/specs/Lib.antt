pub mod Notation
pub mod Alike
pub mod Magnitude
pub mod Bounds
pub mod Fraction
pub mod Rounding
