mod Lists
mod Rules
mod Takes
mod Passes
mod Ends
mod Turns
pub mod Public
