pub mod Place
pub mod Parts
