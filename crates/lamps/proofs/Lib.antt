pub mod Laws
pub mod Mask
pub mod Search
pub mod Groups
pub mod Beyond
