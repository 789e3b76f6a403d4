pub mod Tens
pub mod Stores
pub mod Writing
pub mod DigitsLaws
pub mod Examples
pub mod WidthLaws
