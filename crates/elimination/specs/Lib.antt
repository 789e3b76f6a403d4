pub mod LowestLaws
pub mod Table
pub mod TableLaws
