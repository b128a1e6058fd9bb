pub mod Laws
pub mod Parts
pub mod Seam
pub mod Shift
