pub mod Example
pub mod Groups
pub mod Lamps
pub mod Mask
pub mod Zones
