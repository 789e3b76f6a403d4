pub mod BuildingLaws
pub mod Examples
