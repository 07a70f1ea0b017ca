pub mod Digits
pub mod Spelt
pub mod Lines
pub mod Pieces
pub mod Value
