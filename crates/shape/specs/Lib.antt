pub mod Added
pub mod Call
pub mod Calls
pub mod Within
