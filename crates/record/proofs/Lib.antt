pub mod Taken
pub mod Answered
pub mod Children
pub mod Cases
