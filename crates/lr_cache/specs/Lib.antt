pub mod Claims
pub mod Machine
pub mod Orderly
pub mod Served
