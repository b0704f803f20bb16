-- The laws of this crate's definitions.
pub mod Class
pub mod Size
pub mod Octant
pub mod Points
pub mod OctantTurn
