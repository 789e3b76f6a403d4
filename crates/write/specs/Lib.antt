pub mod Stated
pub mod StatedLaws
