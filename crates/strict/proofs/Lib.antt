pub mod AsBuiltLaws
pub mod HeldLaws
pub mod LinesLaws
pub mod RebuiltLaws
pub mod SameLaws
pub mod StrictTheorem
pub mod WrittenGroupsLaws
