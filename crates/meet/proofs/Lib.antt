pub mod Laws
pub mod Never
pub mod Turns
pub mod Unique
