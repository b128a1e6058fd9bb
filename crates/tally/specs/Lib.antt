pub mod Holds
pub mod Report
pub mod Text
pub mod inner
