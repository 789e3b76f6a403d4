pub mod BoolLaws
pub mod FirstLaws
pub mod OccursLaws
pub mod SearchLaws
pub mod UpToLaws
pub mod WrittenLaws
pub mod PositionLaws
