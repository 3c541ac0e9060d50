pub mod Gathered
pub mod LabelsFall
pub mod Pairs
pub mod Window
