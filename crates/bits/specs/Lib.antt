pub mod Part
pub mod Parts
