pub mod Call
pub mod Promises
pub mod Reading
pub mod Text
