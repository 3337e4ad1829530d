pub mod Ends
pub mod Opening
pub mod Input
pub mod Top
pub mod Played
pub mod Acts
pub mod Gives
pub mod Again
