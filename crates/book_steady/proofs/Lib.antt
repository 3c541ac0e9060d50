pub mod Counts
pub mod StaysInOrder
