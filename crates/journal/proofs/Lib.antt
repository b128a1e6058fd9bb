pub mod Kept
pub mod Laws
pub mod Rewritten
pub mod Unique
