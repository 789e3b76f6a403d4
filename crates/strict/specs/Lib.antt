pub mod Same
pub mod AsBuilt
pub mod StrictCheck
pub mod Servable
