pub mod Checks
pub mod Flags
pub mod Parts
