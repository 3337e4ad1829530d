pub mod Decided
pub mod Ruled
pub mod Views
pub mod Names
pub mod Listed
pub mod Readings
pub mod Bounded
