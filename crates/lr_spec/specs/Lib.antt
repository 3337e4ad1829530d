pub mod Rose
pub mod Told
