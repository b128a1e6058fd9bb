pub mod Choice
pub mod Holds
pub mod inner
