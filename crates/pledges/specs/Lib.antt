pub mod Calls
pub mod Exported
pub mod Pledges
pub mod Single
