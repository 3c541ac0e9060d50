pub mod Sides
pub mod ChainCall
pub mod Never
