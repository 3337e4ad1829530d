pub mod Padded
pub mod Chunks
pub mod Spans
