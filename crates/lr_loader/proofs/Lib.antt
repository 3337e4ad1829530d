pub mod Walks
pub mod Rebuilding
pub mod Determined
