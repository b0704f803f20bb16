pub mod Strobes
