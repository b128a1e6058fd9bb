pub mod Counts
pub mod Joins
pub mod Lists
pub mod Order
pub mod Reports
pub mod Sums
pub mod Texts
pub mod Unique
