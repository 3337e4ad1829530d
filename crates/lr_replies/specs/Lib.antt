pub mod Seen
pub mod Objects
pub mod Replies
pub mod Unspoiled
