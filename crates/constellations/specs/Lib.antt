pub mod Octant
