pub mod Mirroring
pub mod Touching
