pub mod FormulaLaws
pub mod OneTagLaws
