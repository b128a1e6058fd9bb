pub mod Beginnings
pub mod Hex
pub mod RoundTrip
pub mod Unique
