pub mod Closing
pub mod Headline
