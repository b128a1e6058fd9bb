pub mod Holds
pub mod Unique
pub mod Whole
