pub mod LinkLists
pub mod Search
pub mod Reach
pub mod Counting
pub mod Onward
pub mod Nearest
pub mod Descending
pub mod BestTrail
