pub mod Short
pub mod Telling
pub mod Turning
