pub mod Players
pub mod Given
pub mod Acting
pub mod Played
