pub mod Holds
pub mod Tables
