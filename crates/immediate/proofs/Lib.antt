pub mod Elsewhere
pub mod Laws
pub mod Sound
pub mod Unique
pub mod Written
