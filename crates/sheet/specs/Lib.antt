pub mod Load
pub mod RoundTrip
pub mod Sheet
pub mod inner
