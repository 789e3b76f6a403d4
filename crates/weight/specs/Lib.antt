pub mod WordWeight
pub mod WordWeightLaws
