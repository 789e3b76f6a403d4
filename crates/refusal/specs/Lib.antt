pub mod Limits
pub mod Outcome
pub mod Checks
pub mod Reason
pub mod Answer
pub mod ChecksBefore
