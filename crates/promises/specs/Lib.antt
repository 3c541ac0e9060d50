pub mod Promise
pub mod Routines
