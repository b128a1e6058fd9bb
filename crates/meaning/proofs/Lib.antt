pub mod Inverse
pub mod Patterns
pub mod Units
