mod Ordered
pub mod Public
