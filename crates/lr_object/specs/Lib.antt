pub mod Own
pub mod Grown
pub mod Finds
pub mod Kept
