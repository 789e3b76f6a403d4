pub mod Calls
pub mod CallsLaws
pub mod Condition2
pub mod Condition2Laws
pub mod Condition3
pub mod UnwiredLaws
