pub mod Wholes
mod Unspoiled
