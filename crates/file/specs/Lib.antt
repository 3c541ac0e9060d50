pub mod Format
pub mod Layout
