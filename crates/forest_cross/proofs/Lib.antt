-- What the proofs of several functions use.
pub mod Unmarked
pub mod Walk
pub mod Listing
pub mod Passing
pub mod Joined
