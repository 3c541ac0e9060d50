pub mod Doubling
pub mod Ends
pub mod Every
pub mod Extremes
pub mod Facts
