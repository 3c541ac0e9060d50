pub mod Agrees
pub mod Demands
pub mod History
pub mod Implementation
pub mod WindowIs
