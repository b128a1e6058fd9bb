pub mod Enough
pub mod Fronts
pub mod Turns
