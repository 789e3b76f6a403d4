pub mod Starts
pub mod Scatter
