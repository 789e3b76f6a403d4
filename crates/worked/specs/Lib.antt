pub mod Row
pub mod Table
pub mod UnreachedLaws
pub mod TableTheorem
pub mod WholeCase
