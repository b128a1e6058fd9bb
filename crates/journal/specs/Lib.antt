pub mod Change
pub mod Edit
pub mod inner
