pub mod Seeds
pub mod SeedsLaws
