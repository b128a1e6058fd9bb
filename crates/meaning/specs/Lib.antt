pub mod Meaning
pub mod inner
