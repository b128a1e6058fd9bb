pub mod Mark
pub mod Perform
pub mod Taking
pub mod inner
