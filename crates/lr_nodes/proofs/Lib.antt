mod Lists
mod Ordered
pub mod Public
