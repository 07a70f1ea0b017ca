pub mod Text
pub mod Bare
pub mod Over
