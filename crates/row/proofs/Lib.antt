pub mod Among
pub mod Lettered
pub mod Rows
