pub mod Between
pub mod Lines
pub mod Turns
pub mod Unique
