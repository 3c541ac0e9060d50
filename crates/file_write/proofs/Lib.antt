pub mod Cases
pub mod Files
pub mod Laws
