pub mod Arrays
pub mod Log
pub mod Numbers
pub mod Order
