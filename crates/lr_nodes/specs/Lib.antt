pub mod Machine
pub mod Orderly
pub mod Served
pub mod Stripes
