pub mod LabelAccept
pub mod Accept
pub mod Agree
pub mod Choice
pub mod Told
