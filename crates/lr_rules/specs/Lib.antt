pub mod Known
pub mod State
pub mod Safe
pub mod Parts
pub mod Names
pub mod Calls
pub mod Steps
pub mod Start
