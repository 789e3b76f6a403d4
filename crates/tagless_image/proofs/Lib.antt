pub mod CheckedLaws
pub mod Examples
pub mod LookupLaws
pub mod SheetLaws
