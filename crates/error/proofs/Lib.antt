pub mod Tests
pub mod Exactly
pub mod Chain
pub mod Words
