mod Columns
mod Halves
mod Rebuilt
mod Chunks
pub mod Public
