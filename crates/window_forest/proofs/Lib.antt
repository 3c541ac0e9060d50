pub mod Growing
pub mod WindowForest
