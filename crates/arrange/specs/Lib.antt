pub mod Arrange
pub mod PlaceLaws
pub mod SlotsLaws
