pub mod Steps
pub mod Checked
