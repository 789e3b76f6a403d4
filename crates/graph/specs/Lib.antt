pub mod HowMany
pub mod Graph
pub mod Part
pub mod Parts
pub mod Sequences
pub mod Label
