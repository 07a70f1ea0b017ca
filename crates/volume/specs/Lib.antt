pub mod Numbers
pub mod Blocks
pub mod References
pub mod Groups
pub mod Cases
pub mod Accept
