pub mod Ends
pub mod Joins
