pub mod Ascii
pub mod Decimal
pub mod Fields
pub mod Number
pub mod Put
pub mod Whole
