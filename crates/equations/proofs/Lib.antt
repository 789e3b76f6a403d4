pub mod EquationLaws
pub mod StatedLaws
pub mod SystemLaws
