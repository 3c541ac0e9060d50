pub mod Best
pub mod Descent
pub mod Joined
pub mod Levels
pub mod Lists
