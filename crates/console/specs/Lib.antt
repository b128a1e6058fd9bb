pub mod Started
pub mod Status
