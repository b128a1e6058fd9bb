pub mod Acted
pub mod Plan
