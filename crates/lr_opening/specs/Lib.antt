pub mod Store
pub mod Listing
pub mod Reading
pub mod Cause
