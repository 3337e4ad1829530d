pub mod Progress
pub mod Held
pub mod Seen
pub mod Determined
