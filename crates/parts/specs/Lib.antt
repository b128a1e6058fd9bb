pub mod Placed
pub mod inner
