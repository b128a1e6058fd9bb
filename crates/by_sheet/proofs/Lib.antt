pub mod Backs
pub mod Performing
pub mod Told
pub mod Touched
