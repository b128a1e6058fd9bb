pub mod Check
pub mod Exclusive
pub mod Held
pub mod Known
pub mod Match
pub mod Narrow
