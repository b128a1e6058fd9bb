pub mod Changes
pub mod Inverse
pub mod Lines
