pub mod Migration
pub mod Progress
pub mod Seen
