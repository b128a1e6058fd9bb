pub mod Displacement
pub mod Reached
