pub mod Crossing
pub mod Never
pub mod Rooted
pub mod Steps
pub mod Unlinked
pub mod Asked
