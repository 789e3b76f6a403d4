pub mod Condition3Laws
pub mod FullGroupLaws
pub mod PlacingLaws
