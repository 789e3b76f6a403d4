pub mod Answer
pub mod Steps
pub mod GroupLaws
pub mod StepsLaws
pub mod Condition2
pub mod Condition2Laws
