pub mod Arms
pub mod Forms
pub mod Holds
