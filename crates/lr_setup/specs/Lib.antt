pub mod Setup
pub mod Whole
