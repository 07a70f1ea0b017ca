pub mod Search
pub mod Words
pub mod Inside
pub mod Given
