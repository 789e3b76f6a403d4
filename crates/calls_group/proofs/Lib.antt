pub mod PartsLaws
pub mod PlaceLaws
