mod Hits
mod Few
mod Own
mod Legal
mod Sessions
pub mod Public
