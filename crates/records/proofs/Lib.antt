pub mod Sharing
pub mod Standing
