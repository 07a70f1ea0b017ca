pub mod Label
pub mod Fields
pub mod Root
pub mod Select
pub mod Cases
pub mod Words
