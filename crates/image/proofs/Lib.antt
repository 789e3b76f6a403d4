pub mod CheckedLookupLaws
pub mod Examples
pub mod FaultLaws
pub mod GroupLinesLaws
pub mod LookupLaws
pub mod SameNumbersLaws
pub mod SheetLaws
pub mod UnwiredLaws
