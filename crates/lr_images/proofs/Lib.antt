pub mod Calling
pub mod Driving
pub mod Creations
pub mod Readings
pub mod Filled
pub mod Made
pub mod Why
