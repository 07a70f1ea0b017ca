pub mod Text
pub mod Same
pub mod Decode
pub mod Choice
pub mod Cases
