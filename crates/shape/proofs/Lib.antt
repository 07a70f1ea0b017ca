pub mod Reading
pub mod Room
pub mod Steady
pub mod Within
