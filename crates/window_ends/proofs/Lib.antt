pub mod Joining
pub mod Laws
pub mod Rooting
pub mod WindowEnds
