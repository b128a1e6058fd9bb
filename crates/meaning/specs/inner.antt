pub mod Fits
pub mod Lists
