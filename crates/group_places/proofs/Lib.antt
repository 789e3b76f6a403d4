pub mod PlacesLaws
pub mod CaseLaws
