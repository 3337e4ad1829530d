pub mod Stands
pub mod Depot
pub mod Others
pub mod Devices
