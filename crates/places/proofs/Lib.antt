pub mod ArrayLaws
