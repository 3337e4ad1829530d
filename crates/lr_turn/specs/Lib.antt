pub mod Views
pub mod Called
pub mod Kept
pub mod Steps
pub mod Shown
