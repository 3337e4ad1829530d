pub mod Cipher
pub mod Key
pub mod Counter
pub mod Ghash
pub mod Gcm
pub mod Products
pub mod Lanes
pub mod Examples
