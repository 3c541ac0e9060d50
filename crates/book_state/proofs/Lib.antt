pub mod Built
pub mod Cells
pub mod Checks
pub mod Grown
pub mod LogLinks
pub mod Passes
