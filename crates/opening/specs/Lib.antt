pub mod Opened
pub mod OpenedLaws
pub mod Opening
pub mod OpeningLaws
pub mod PlaceLaws
