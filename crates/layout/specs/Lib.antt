pub mod Change
pub mod Layout
pub mod Read
pub mod RoundTrip
pub mod inner
