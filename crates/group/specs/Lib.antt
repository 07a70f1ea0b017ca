pub mod Slots
pub mod Group
pub mod Accept
pub mod Agree
pub mod Cases
pub mod Inside
