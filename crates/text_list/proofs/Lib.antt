pub mod Calls
pub mod Cases
pub mod Lines
pub mod Numbers
pub mod Records
pub mod Split
pub mod Texts
pub mod Told
