pub mod Kind
pub mod Moved
