pub mod Loops
pub mod Naming
pub mod Entries
pub mod Zipped
pub mod Doubting
