pub mod ConditionLaws
pub mod Examples
