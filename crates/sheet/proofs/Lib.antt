pub mod ByNumber
pub mod Filled
pub mod Held
pub mod Inverse
pub mod Lengths
pub mod Lines
pub mod OneKind
pub mod Reading
pub mod Seen
pub mod Sheets
mod Writing
