pub mod Counter
pub mod Slides
