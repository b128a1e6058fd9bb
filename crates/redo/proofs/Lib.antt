pub mod Inverse
pub mod Lines
pub mod Reading
pub mod States
