pub mod Answers
pub mod Classes
pub mod Exactly
pub mod Agreement
pub mod Cases
pub mod Words
pub mod Requests
