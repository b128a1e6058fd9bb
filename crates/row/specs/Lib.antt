pub mod Row
pub mod inner
