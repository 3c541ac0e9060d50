pub mod Climb
pub mod Fill
pub mod Held
pub mod Ranged
