pub mod Clock
pub mod Counter
