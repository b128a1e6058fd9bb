pub mod Immediate
pub mod inner
