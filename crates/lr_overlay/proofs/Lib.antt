pub mod Over
pub mod Places
pub mod Seen
mod CellsMemory
