pub mod Arrays
pub mod ArraysLaws
pub mod PromiseLaws
