pub mod Strict
pub mod StrictLaws
