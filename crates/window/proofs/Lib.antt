pub mod Falling
pub mod Gathered
pub mod Highest
pub mod Pairs
pub mod Putting
pub mod WindowLinks
