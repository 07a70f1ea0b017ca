pub mod Accept
pub mod Agree
pub mod Choice
