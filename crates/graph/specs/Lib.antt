pub mod Forest
pub mod Link
pub mod Trail
