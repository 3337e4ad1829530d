pub mod Calling
pub mod World
pub mod Runs
pub mod Turns
pub mod Laws
pub mod Working
pub mod Rounding
pub mod Bounded
