pub mod Exported
pub mod Pledges
pub mod Single
