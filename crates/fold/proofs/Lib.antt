pub mod Folding
pub mod Laws
pub mod Places
