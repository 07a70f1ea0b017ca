pub mod Paths
pub mod Exactly
pub mod Parents
pub mod Steps
