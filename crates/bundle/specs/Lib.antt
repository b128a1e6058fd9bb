pub mod Bytes
pub mod Template
pub mod Bundle
