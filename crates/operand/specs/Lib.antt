pub mod Kind
pub mod Pattern
pub mod Reading
