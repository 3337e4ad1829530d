mod Steps
mod Opening
pub mod Unspoiled
mod Whole
mod Leases
