pub mod Pages
pub mod Directory
pub mod Cells
pub mod Places
pub mod Lending
