pub mod AscendingLaws
pub mod Examples
pub mod GroupLaws
pub mod UnwiredLaws
pub mod WordLaws
