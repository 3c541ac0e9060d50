pub mod Cell
pub mod Mounting
pub mod Touching
