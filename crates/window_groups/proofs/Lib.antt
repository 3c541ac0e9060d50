pub mod Cells
pub mod GroupTrees
pub mod Labels
pub mod LeastHold
pub mod SameGroup
pub mod Tally
pub mod AtRoots
pub mod WindowTrees
