pub mod Ends
pub mod Promise
pub mod Routines
