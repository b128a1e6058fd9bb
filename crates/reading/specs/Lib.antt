pub mod Line
pub mod Small
