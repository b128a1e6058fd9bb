pub mod Read
pub mod Redo
pub mod RoundTrip
pub mod State
