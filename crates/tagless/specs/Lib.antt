pub mod Number
pub mod Building
pub mod FromText
