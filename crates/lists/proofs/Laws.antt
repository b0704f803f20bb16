-- Laws of lists that have nothing to do with what the lists hold.
pub mod Along
pub mod Each
pub mod Reading
pub mod Stores
pub mod Folds
