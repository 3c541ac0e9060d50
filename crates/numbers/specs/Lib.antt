pub mod Checks
pub mod Front
pub mod Kinds
