pub mod Collection
pub mod Progress
pub mod Seen
