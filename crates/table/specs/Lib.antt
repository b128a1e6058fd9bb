pub mod Ascii
pub mod Entry
pub mod Table
